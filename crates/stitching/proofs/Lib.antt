-- What the proofs of this crate share: the steps from cell to cell and from row to row.
pub mod Steps
