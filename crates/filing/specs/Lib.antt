-- What each step of filing asks of the table, and what it leaves in it.
pub mod Steps
