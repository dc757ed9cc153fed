-- Document 01 as definitions, one file a section, in its order and words. What the public face promises is said in these terms.
pub mod Limits
pub mod Terrain
pub mod Cells
pub mod Stitching
pub mod Drawing
pub mod Pairs
pub mod Area
pub mod Containment
pub mod Contour
pub mod Band
pub mod Smoothing
pub mod Room
pub mod Tables
pub mod GeoJson
pub mod Winding
pub mod Program
pub mod Dozen
