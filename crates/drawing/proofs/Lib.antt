-- What the proofs of this crate share: the numbers of links, the sides, and the strokes of a cell.
pub mod Indexes
pub mod Sides
pub mod Strokes
