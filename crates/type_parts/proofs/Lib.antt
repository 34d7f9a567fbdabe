-- What the proofs of several functions use.
pub mod Dereferenced
pub mod Single
