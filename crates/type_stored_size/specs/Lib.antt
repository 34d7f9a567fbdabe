pub mod StoredSize
pub mod Earlier
