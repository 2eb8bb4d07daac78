pub mod Marks
pub mod Kinds
pub mod Lines
pub mod Names
