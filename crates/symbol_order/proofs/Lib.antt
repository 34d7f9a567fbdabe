-- What the proofs of several functions use.
pub mod Ordered
pub mod Onward
pub mod Single
