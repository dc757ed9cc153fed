-- A terrain row by row: what the tests of its code come to, and the laws that its calls go by.
pub mod Sides
pub mod Samples
pub mod Calls
pub mod GridRows
pub mod Together
pub mod Standing
pub mod Call
pub mod Turn
pub mod Theorems
