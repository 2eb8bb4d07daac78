pub mod StepTests
pub mod Turns
