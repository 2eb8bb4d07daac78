pub mod PlaceLaws
pub mod ListLaws
pub mod TermLaws
pub mod Sets
