-- What the proofs of several functions use.
pub mod Where
pub mod Single
