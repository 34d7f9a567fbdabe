-- What the proofs of several functions use, and what follows from the definitions.
pub mod Storing
pub mod Getting
pub mod Single
