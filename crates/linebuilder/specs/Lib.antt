-- What the build of lines answers and leaves in each lent table, by document 01's definitions.
pub mod Lines
