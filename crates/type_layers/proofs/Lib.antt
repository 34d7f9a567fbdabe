-- What the proofs of several functions use.
pub mod Decide
pub mod Words
pub mod Spelling
pub mod Given
pub mod Table
pub mod Apart
pub mod Single
