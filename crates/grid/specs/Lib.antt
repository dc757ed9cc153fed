-- When a grid fits, and the first two refusals.
pub mod Grid
