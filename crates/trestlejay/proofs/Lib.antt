-- What the proofs of several functions use.
pub mod Made
pub mod Told
pub mod Single
pub mod Demanded
