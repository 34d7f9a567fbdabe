-- What the proofs of several functions use.
pub mod KnownSizes
pub mod Pointers
pub mod Single
pub mod Cases
