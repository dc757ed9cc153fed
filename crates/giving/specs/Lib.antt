-- A row drawn, with the rings that close in it given out.
pub mod Giving
pub mod Values
