-- What callers cite of smoothing and placement: `Moving`, `HalfStep`, `Placing` and `Explained`. `Fractions` is what they share.
pub mod Fractions
pub mod HalfStep
pub mod Moving
pub mod Placing
pub mod Explained
pub mod Found
