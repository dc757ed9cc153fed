-- What the proofs of this crate share: the walks that store, a stroke by what its sides have, and a cell by its number.
pub mod Cells
pub mod Strokes
pub mod Walks
-- The row machine holds document 01's drawing, by rules, cells, rows and calls.
pub mod Sizes
pub mod OpenSegments
pub mod Most
pub mod Stock
pub mod Outputs
pub mod RowHolds
pub mod RowRules
pub mod RowClose
pub mod RowCarrier
pub mod Fresh
pub mod RowBounds
pub mod RowFiled
pub mod Row
pub mod RowCalls
