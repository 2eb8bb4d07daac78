pub mod Notes
pub mod Walks
pub mod Enough
pub mod FinishedLaws
