pub mod Erased
pub mod ErasedTraces
pub mod DoingsFit
pub mod OriginsStand
pub mod ExamplesOfTraces
pub mod ExamplesOfLists
