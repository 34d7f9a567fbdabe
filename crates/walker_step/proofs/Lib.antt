-- What the proofs of several functions use, and what follows from the definitions.
pub mod Acting
pub mod Single
