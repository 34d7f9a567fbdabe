pub mod Way
pub mod Slot
pub mod AsCoded
