-- A point as the definitions have it, what `area` and `contains` answer, as functions of their words, and what a walk over a ring's words finds.
pub mod Points
pub mod Answers
pub mod Summed
