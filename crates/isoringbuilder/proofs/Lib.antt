-- Laws of the builds: what the pass and the packing lead to, and that each contract leaves one result.
pub mod Limits
pub mod Passing
pub mod Packing
pub mod Laws
