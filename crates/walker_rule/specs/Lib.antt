pub mod Walker
pub mod AsCoded
