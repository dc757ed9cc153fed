-- What the classes and owners of a contour and of a band ask of the tables, and what they leave in the directory.
pub mod Regions
