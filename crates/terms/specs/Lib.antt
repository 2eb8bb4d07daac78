-- What the contracts of `terms` cite.
pub mod Framing
pub mod Decoded
pub mod Bodies
pub mod Numbered
pub mod Records
pub mod Numbers
