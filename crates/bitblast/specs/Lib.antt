-- What the contracts of `bitblast` cite.
pub mod Asking
pub mod Claim
