-- What the proofs of several functions use.
pub mod Externalizing
pub mod Fixes
pub mod Theorems
pub mod Single
