-- What the contracts of `records` cite.
pub mod Turning
