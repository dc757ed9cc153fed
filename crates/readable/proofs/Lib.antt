-- Laws of ring sets against number 9 and their text, with no code. Laws.antt, Text.antt, Pieces.antt, Viewer.antt, Past.antt, Counts.antt
-- and Standing.antt have those that other crates cite.
pub mod Behind
pub mod Packed
pub mod Orders
pub mod Fates
pub mod Records
pub mod Passing
pub mod Laws
pub mod Text
pub mod Pieces
pub mod Viewer
pub mod Past
pub mod Counts
pub mod Standing
