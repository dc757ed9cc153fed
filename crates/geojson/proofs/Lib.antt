-- What the writer answers, case by case, and what its contracts come to, for its callers.
mod Cases
pub mod Laws
