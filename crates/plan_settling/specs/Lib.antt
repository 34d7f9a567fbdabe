pub mod Line
pub mod Settling
pub mod AsCoded
