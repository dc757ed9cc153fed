-- What callers cite of the points of lines.
pub mod Laws
