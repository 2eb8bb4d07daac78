-- What the contracts of `evaluation` cite.
pub mod Cells
pub mod Columns
