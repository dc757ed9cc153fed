-- What the code's placement and vertex stand for, and what smoothing does to a vertex.
pub mod Values
pub mod Coordinates
