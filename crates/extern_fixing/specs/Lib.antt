pub mod Fixing
pub mod Answers
pub mod AsCoded
