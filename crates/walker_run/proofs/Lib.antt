-- What the proofs of several functions use, and what follows from the definitions.
pub mod Stepping
pub mod Theorems
pub mod Single
