pub mod Act
pub mod Operation
pub mod Operations
pub mod AsCoded
