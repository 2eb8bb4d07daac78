-- What the contracts of `tally` cite.
pub mod Counted
pub mod Listed
