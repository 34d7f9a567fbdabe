-- What the proofs of several functions use.
pub mod Looking
pub mod Single
