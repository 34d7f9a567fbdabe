-- What the proofs of several functions use.
pub mod Decoding
pub mod Single
