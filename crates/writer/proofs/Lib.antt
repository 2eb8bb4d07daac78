pub mod Moves
pub mod PutLaws
pub mod Frame
pub mod CoverLaws
pub mod RecordLaws
pub mod PlaceLaws
pub mod StepLaws
pub mod Sets
