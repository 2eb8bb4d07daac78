-- Laws that the proofs of `report` use.
pub mod Decimal
pub mod Lines
