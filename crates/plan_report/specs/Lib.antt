pub mod Plan
pub mod Report
pub mod AsCoded
