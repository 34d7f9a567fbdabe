pub mod Decimal
pub mod AsCoded
