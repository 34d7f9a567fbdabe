-- What follows from the definitions and the contracts.
pub mod Theorems
pub mod Single
