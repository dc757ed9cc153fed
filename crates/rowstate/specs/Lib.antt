-- A state of the row form as words: what words hold, and what a state leaves in them.
pub mod Words
