pub mod Folding
pub mod Lengths
pub mod Lists
pub mod Literals
