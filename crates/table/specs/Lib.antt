pub mod Buckets
pub mod Promise
pub mod Keys
pub mod Lent
pub mod Falls
pub mod Walk
pub mod LookedUp
