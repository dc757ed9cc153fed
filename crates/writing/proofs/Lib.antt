-- The laws that the proofs of this crate share, and in `Laws` what callers cite that keep their records in another way.
mod Puts
mod Each
mod Entries
mod Texts
mod Rooms
mod Turns
mod Counts
pub mod Laws
