pub mod Got
pub mod Get
pub mod AsCoded
