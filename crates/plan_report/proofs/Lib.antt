-- What the proofs of several functions use.
pub mod Delivering
pub mod Single
