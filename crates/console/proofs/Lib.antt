pub mod Showing
pub mod Seen
