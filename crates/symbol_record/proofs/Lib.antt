-- What the proofs of several functions use.
pub mod Doing
pub mod Single
