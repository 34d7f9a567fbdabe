-- What is known of words that were written.
pub mod Writing
pub mod Single
