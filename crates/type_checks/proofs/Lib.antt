-- What the proofs of several functions use.
pub mod Theorems
pub mod Within
pub mod Checks
pub mod Passing
pub mod Accepted
pub mod Refusals
pub mod Single
