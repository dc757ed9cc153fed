-- What a `?` passes on.
pub mod Passing
