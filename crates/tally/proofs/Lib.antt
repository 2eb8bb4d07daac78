-- Laws that the proofs of `tally` use.
pub mod Counting
