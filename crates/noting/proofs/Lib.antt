-- What the proofs of this crate share, and in `Determined` that any two results of a contract coincide.
pub mod Answers
pub mod Rings
pub mod Signs
pub mod Walk
pub mod High
pub mod Determined
