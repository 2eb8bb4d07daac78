pub mod Steps
pub mod Declarations
