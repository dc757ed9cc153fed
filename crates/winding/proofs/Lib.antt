-- Which way the rings of a checked set are written. Laws.antt has what other crates cite, and Turning.antt is about any line of points.
pub mod Sizes
pub mod Words
pub mod Turning
pub mod Laws
