-- What spreading records out leaves.
pub mod Spread
