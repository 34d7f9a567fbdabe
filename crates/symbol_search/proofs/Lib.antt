-- What the proofs of several functions use.
pub mod Searching
pub mod Single
