-- What the entries for C return, as functions of what they are passed.
pub mod Told
pub mod ByRow
pub mod Entries
pub mod Rings
pub mod Texts
pub mod Why
