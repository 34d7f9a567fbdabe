-- What the proofs of several functions use.
pub mod Whole
pub mod Deeds
pub mod Setting
mod Numbered
pub mod Theorems
pub mod Puts
pub mod Single
