-- What only the contracts of inner functions cite.
pub mod Scan
pub mod TokenSteps
pub mod SpotSteps
