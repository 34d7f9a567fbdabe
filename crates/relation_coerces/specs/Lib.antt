pub mod Coerces
pub mod Coercion
pub mod AsCoded
