pub mod Facts
pub mod Reading
pub mod Lookup
pub mod Measuring
pub mod Keeping
pub mod Sorting
pub mod Arguments
pub mod Claims
