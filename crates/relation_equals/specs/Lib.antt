pub mod Equals
pub mod AsCoded
