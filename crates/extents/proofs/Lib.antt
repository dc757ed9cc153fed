-- What the proofs of this crate share. Callers cite `Laws` of extents that are apart or inside, `Growing` of what an extent holds, `Stores` of extents
-- that are stored and words that stay, `Permutes` of numbers taken in some order, and `Determined` of two results that meet one contract.
pub mod Laws
pub mod Growing
pub mod Passing
pub mod Stores
pub mod Raising
pub mod Permutes
pub mod Determined
