pub mod Folds
pub mod Forms
pub mod Numbers
pub mod Sorts
pub mod Tests
pub mod Literals
