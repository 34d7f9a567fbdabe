-- What the proofs of several functions use.
pub mod Gathering
pub mod Finding
pub mod Single
