-- What the proofs of several functions use.
pub mod Choices
pub mod Known
pub mod Single
