pub mod Updated
pub mod Update
pub mod AsCoded
