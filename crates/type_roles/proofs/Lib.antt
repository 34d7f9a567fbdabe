-- What the proofs of several functions use.
pub mod Theorems
pub mod Told
pub mod Single
