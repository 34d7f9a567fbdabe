-- What the proofs of several functions use.
pub mod Coded
pub mod Single
