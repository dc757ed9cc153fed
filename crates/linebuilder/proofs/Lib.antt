-- What the pass and the plotting lead to.
pub mod Laws
