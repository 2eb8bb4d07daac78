-- Their laws.
pub mod GateLaws
pub mod BitLaws
pub mod KnownLaws
pub mod KindLaws
pub mod Sets
