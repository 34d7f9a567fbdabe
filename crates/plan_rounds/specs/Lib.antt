pub mod Rounds
pub mod Settled
pub mod AsCoded
