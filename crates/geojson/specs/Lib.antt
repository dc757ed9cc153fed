-- What the writer and the length of its text answer.
pub mod Written
