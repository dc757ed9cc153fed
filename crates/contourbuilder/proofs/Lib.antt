-- Laws behind the builds of contours and isobands.
pub mod Lengths
pub mod Laid
pub mod Sizes
pub mod Whole
pub mod Owning
pub mod Contoured
pub mod Banded
