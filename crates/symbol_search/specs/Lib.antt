pub mod Search
pub mod AsCoded
