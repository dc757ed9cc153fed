-- The way from a record to its six words and back, and what copying a whole directory leaves.
pub mod Records
pub mod Copies
