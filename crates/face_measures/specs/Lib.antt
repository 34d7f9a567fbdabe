pub mod Measured
pub mod AsCoded
