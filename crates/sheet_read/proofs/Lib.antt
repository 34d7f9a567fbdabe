-- What the proofs of several functions use, and what is known of what was read.
pub mod Checking
pub mod Read
pub mod Single
