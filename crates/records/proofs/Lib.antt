-- What the proofs of this crate share: what a build leaves that was lent a front of the words; and what the contracts come to, for callers.
pub mod Lending
pub mod Laws
