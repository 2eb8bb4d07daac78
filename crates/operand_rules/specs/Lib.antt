pub mod Literal
pub mod Operations
pub mod Rules
