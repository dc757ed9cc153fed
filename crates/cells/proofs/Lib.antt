-- What the proofs of this crate share, and in `Laws` and `Rules` what its callers cite.
pub mod Laws
pub mod Numbers
pub mod Rules
pub mod Table
