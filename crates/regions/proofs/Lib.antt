-- What leads from the records of counted rings to the records of a contour and of a band.
pub mod Listing
pub mod Orders
pub mod Entries
pub mod Arranged
pub mod Fates
pub mod Regions
