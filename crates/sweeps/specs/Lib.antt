-- The definitions of document 02's P3, P9 and P11.
pub mod Variables
pub mod Sweep
pub mod Known
pub mod Calls
pub mod Claim
