-- What the proofs of several functions use, and what follows from the definitions.
pub mod Leads
pub mod Rounds
pub mod Sound
pub mod Settles
pub mod Plans
pub mod Arrives
pub mod Asking
pub mod Answered
pub mod Carried
pub mod Table
pub mod Surprises
pub mod Excluded
pub mod Accepts
pub mod Single
