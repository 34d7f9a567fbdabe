-- What the proofs of several functions use.
pub mod Told
pub mod Cases
pub mod Theorems
pub mod Single
