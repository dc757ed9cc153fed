-- The order in which rings are written, kept in the room of the text itself.
pub mod Entries
pub mod Machine
