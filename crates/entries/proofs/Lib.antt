pub mod StepLaws
pub mod DeclareLaws
pub mod Sets
