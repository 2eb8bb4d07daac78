-- What the contracts of `runs` cite.
pub mod Walking
pub mod Finished
