-- What the code of this crate has beside document 01's definitions: the table's entries by their two sides, and the rules by numbers.
pub mod Sides
pub mod Rules
