-- What the proofs of this crate share. Callers cite `Inputs` of texts and the inputs that they are accepted as, and `Laws` of what the contract comes to.
pub mod Decimals
pub mod Lines
pub mod Inputs
pub mod Places
pub mod Walks
pub mod Answers
pub mod Laws
