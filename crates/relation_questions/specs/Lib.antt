pub mod Questions
pub mod AsCoded
pub mod Earlier
