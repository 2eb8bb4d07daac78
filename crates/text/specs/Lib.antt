pub mod Tokens
pub mod Spelling
pub mod Reading
pub mod Writing
pub mod Convert
pub mod Claim
