pub mod CutLaws
pub mod TakeLaws
pub mod TextLaws
