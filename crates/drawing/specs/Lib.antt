-- A cell drawn, as the table machine has it.
pub mod Values
