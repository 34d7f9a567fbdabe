-- What the proofs of several functions use.
pub mod Fits
pub mod Single
