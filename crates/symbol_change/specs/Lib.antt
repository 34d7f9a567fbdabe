pub mod Change
pub mod AsCoded
