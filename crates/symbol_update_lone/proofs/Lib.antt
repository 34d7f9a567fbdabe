-- What the proofs of several functions use.
pub mod Alone
pub mod Theorems
pub mod Single
