-- What the proofs of several functions use.
pub mod Reading
pub mod Storing
pub mod Single
