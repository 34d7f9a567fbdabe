-- What the proofs of several functions use.
pub mod Decided
pub mod Single
