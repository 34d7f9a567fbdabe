pub mod Words
pub mod Single
