-- What the proofs of several functions use.
pub mod Reading
pub mod Stepping
pub mod Going
pub mod Finishing
pub mod Single
