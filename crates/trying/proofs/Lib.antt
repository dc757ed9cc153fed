-- The trial counts document 01's lines and rings; and what the proofs of the code share.
pub mod ByNumber
pub mod BySides
pub mod Slots
pub mod Notes
pub mod Low
pub mod Renoted
pub mod Listed
pub mod Counted
pub mod Strokes
pub mod Crossing
pub mod Sides
pub mod Cells
pub mod Kept
pub mod Rows
pub mod Laws
