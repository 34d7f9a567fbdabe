pub mod Check
pub mod Earlier
pub mod AsCoded
