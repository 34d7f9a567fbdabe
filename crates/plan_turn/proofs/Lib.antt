-- What follows from the definitions.
pub mod Cases
pub mod Single
