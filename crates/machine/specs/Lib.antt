-- The table machine, between the stitching rules and the code.
pub mod Machine
pub mod Walk
