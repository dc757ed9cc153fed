-- Document 02's second request: what becomes of a ring and why, and what smoothing does to a vertex of a ring, on every input.
pub mod Fates
pub mod Vertices
