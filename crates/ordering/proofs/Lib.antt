-- What the machine comes to, which callers cite, and the laws that the proofs of this crate share.
pub mod Words
pub mod Laws
mod Search
mod Steps
mod Numbers
mod Places
mod Tables
mod Owners
mod Runs
mod Placing
