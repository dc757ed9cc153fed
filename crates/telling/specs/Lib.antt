-- What a caller in C is told of a ring's fate, of an answer and of a vertex.
pub mod Outputs
