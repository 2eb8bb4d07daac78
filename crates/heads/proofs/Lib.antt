pub mod ConstantLaws
pub mod HeadLaws
pub mod Sets
