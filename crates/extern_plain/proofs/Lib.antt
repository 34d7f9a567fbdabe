pub mod Fronts
pub mod Single
