-- What the proofs of several functions use.
pub mod Putting
pub mod Single
