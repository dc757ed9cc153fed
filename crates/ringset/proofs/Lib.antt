-- What a ring set is that number 9 does not refuse, and the laws that the proofs of this crate share.
pub mod Below
pub mod Laws
pub mod Words
pub mod OneRecord
pub mod Judged
