pub mod Refusals
pub mod Contexts
