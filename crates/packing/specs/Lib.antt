-- What the zeroing of a work table leaves.
pub mod Cleared
