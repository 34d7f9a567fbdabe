-- What the proofs of several functions use.
pub mod Words
pub mod Passing
pub mod Single
