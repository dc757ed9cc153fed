-- Rows of tests as the bits of words, and cells by the words of their samples.
pub mod Bits
pub mod Panes
