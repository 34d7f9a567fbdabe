pub mod Known
pub mod Depth
