-- What callers cite of the test of a grid.
pub mod Laws
