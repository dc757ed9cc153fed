-- The stitching pass as the table machine has it.
pub mod Rows
