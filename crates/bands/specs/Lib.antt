-- What a band's reports and isobands answer, and what they leave in each lent table, by document 01's definitions.
pub mod Bands
pub mod Passing
