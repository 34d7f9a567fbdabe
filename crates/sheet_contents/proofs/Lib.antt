-- What follows from the definition of a sheet.
pub mod Counts
pub mod Shape
pub mod Places
pub mod Single
