-- Laws of extents against document 01's containment, with no tables and no code. Held.antt, Ray.antt and Taking.antt have those that other crates cite.
pub mod Weights
pub mod Held
pub mod Holding
pub mod Flipping
pub mod Off
pub mod Ray
pub mod Aside
pub mod Taking
