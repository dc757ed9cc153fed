-- A ring against a ring, with the vertex that decides.
pub mod Decisions
