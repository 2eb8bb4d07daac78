pub mod Marks
pub mod Links
pub mod Asked
pub mod Places
