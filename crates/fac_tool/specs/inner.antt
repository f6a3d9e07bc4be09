-- What only the contracts of inner functions cite.
pub mod Stops
pub mod StepEnds
pub mod FormsTaken
pub mod ImageSteps
pub mod WrittenBehind
pub mod Tasks
pub mod Uses
pub mod Drawings
