-- What the proofs of this crate share, and in `Runs`, `Lengths`, `Shares`, `Texts` and `Bounds` what its callers cite.
pub mod Runs
pub mod Lengths
pub mod Shares
pub mod Texts
pub mod Bounds
mod Digits
mod Rings
mod Sums
