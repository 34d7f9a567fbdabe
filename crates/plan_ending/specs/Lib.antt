pub mod AsCoded
