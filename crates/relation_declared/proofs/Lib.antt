-- What the proofs of several functions use.
pub mod Decisions
pub mod Theorems
pub mod Single
