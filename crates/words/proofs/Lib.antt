pub mod WordLaws
pub mod TableLaws
pub mod NumberLaws
pub mod ReadLaws
pub mod Sets
