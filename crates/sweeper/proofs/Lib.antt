pub mod BlockLaws
pub mod SweepLaws
pub mod NumberLaws
pub mod Sets
