pub mod Deed
pub mod AsCoded
