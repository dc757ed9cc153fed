-- The laws that the proofs of this crate share.
pub mod Outcomes
pub mod Answered
pub mod Called
pub mod Texts
pub mod Why
