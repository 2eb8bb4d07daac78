pub mod Copying
pub mod Fitting
pub mod Literals
pub mod SliceLaws
pub mod Moving
