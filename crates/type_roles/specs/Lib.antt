pub mod Roles
pub mod Grid
pub mod AsCoded
