-- The trial of a row.
pub mod Notes
pub mod Trying
pub mod Values
