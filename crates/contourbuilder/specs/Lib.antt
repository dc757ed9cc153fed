-- What the build of contours answers and leaves in each lent table, by document 01's definitions; that of isobands stands in `bands`.
pub mod Contours
pub mod Owning
