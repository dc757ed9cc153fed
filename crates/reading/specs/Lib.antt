-- The parser of the program's input, and what reading it answers and leaves.
pub mod Parser
pub mod Reads
