-- What the contracts of this crate have beside the table machine: the code's values as the machine has them.
pub mod Values
