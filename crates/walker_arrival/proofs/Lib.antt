-- What the proofs of several functions use.
pub mod Arriving
pub mod Single
