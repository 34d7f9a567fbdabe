pub mod Layers
pub mod Answer
pub mod AsCoded
