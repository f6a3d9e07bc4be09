pub mod LineLemmas
pub mod VisibleLemmas
mod ExamplesOfNames
