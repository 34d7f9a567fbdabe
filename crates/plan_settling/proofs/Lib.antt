-- What the proofs of several functions use, and what follows from the definitions.
pub mod Lines
pub mod Decided
pub mod Single
