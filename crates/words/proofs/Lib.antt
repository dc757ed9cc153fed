-- What the proofs of this crate share, and in `Laws` what its callers cite.
pub mod Packing
pub mod Laws
pub mod Ruled
pub mod Places
