pub mod Order
pub mod AsCoded
