pub mod PartStarts
pub mod AsCoded
