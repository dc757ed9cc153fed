-- What noting the rings asks of the tables, and what it leaves in the directory.
pub mod Noted
pub mod Step
