pub mod Sweeping
pub mod Blocks
