pub mod Writing
pub mod Equations
pub mod Judging
