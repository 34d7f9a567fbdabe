-- What is known of a text that is put together.
pub mod Texts
pub mod Rows
pub mod Told
pub mod Single
