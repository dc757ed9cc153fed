-- What the contracts of the public face come to, for its callers.
pub mod Lowest
pub mod Results
pub mod Grids
pub mod Theorems
pub mod Fits
pub mod Bands
pub mod Peaks
pub mod Reported
pub mod Joined
pub mod Checked
pub mod Texts
pub mod Once
pub mod Explained
