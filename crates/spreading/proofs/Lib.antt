-- The laws that the proofs of this crate share, and those that builds cite: what spreading leaves of bare records and of records in an order.
pub mod Stores
pub mod Laws
