-- What the second report and contour_rings answer, and what they leave in each lent table, by document 01's definitions.
pub mod Verdict
pub mod Answers
pub mod Pass
