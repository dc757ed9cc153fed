-- Laws of a state as words: what its functions read and store, and that a state which is stored and read again is that state.
pub mod Floats
pub mod Walks
pub mod States
pub mod ReadBack
pub mod NextCall
