-- What the definitions come to: the two rules on some values, areas as two words, the saddles are not joined through the middle, the opening rule
-- gives document 01's list, the row of a ring's first vertex answers 0, the example's text, and the pairs after each cell of a small grid.
pub mod Compared
pub mod Saddles
pub mod Opening
pub mod Rows
pub mod Sides
pub mod Signed
pub mod Example
pub mod Counted
