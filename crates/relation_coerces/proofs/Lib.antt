-- What the proofs of several functions use.
pub mod Theorems
pub mod OneLook
pub mod Decisions
pub mod OnePass
pub mod Dereferences
pub mod Single
