-- What the contracts of `intern` cite.
pub mod Kinds
pub mod Given
pub mod Interning
