-- The definitions of this crate.
pub mod Pieces
pub mod Shares
