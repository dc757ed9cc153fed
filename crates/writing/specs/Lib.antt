-- The text of a ring set by the entries of its rings, what it is to put a part of a text, and how many rings a text has.
pub mod Texts
pub mod Counts
