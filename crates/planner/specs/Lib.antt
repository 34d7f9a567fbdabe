pub mod Plans
pub mod Demand
pub mod Reported
pub mod Accepts
pub mod AsCoded
