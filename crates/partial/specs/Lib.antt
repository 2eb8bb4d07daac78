-- The bits of a term where only part of its inputs is known.
pub mod Levels
pub mod Inputs
pub mod Passing
pub mod Output
pub mod Number
