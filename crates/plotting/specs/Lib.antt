-- What the walk along the links stores as the points of lines.
pub mod Plot
