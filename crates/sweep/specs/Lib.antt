-- A sweep over the cells of a row.
pub mod Sweep
