pub mod Calls
pub mod Tallied
pub mod AskingLaws
pub mod AletheLaws
