-- Bits of which some are not known.
pub mod Gates
pub mod Bits
pub mod KnownBits
