pub mod Measured
pub mod Widths
pub mod Theorems
pub mod Single
pub mod Cases
