-- Points, rings and records as the words of a table hold them, the extents of points, and ladders of extents in a table.
pub mod Points
pub mod Extents
pub mod Ladders
pub mod Filling
pub mod Records
