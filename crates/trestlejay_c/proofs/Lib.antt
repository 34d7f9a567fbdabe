-- What follows from the contracts of the exports.
pub mod Same
