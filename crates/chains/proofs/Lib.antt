pub mod Standing
pub mod Passing
pub mod Joins
pub mod Verdicts
