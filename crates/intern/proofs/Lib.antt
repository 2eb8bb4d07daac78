pub mod Guarding
pub mod Arguing
pub mod Every
pub mod Asking
pub mod Bools
pub mod Growing
pub mod Taking
