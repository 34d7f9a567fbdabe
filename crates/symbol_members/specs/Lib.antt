pub mod Member
pub mod Members
pub mod AsCoded
