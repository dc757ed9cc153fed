-- What loops over the active cells of a row cite: the steps of a sweep, and the cells between two rows of words.
pub mod Rows
pub mod Steps
