-- What only the contracts of inner functions cite.
pub mod CharacterSteps
pub mod TakenBehind
pub mod WholeReading
