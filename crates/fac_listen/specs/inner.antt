-- What only the contracts of inner functions cite.
pub mod Hearings
pub mod NextLines
pub mod Endings
