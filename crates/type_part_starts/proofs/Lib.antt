-- What the proofs of several functions use.
pub mod Places
pub mod Single
