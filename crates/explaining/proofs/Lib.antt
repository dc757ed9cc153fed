-- The laws that the proofs of this crate share.
pub mod Rings
pub mod Owners
pub mod Drawn
pub mod Example
