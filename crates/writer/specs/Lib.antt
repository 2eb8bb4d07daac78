pub mod Records
pub mod Places
pub mod Written
