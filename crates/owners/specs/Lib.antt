-- What the search for classes and the search for owners leave in the directory.
pub mod Owned
pub mod Searched
pub mod Once
pub mod Stays
pub mod Stored
