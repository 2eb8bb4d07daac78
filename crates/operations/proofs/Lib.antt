pub mod WordLaws
pub mod ApplyLaws
pub mod ManyLaws
pub mod MeaningLaws
pub mod MoveLaws
pub mod Sets
