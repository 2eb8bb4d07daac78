-- What the contracts of `chains` cite.
pub mod Premises
pub mod Told
pub mod Rules
pub mod Claims
