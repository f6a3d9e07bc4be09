pub mod ExamplesOfReferences
pub mod ExamplesOfNames
pub mod InstrRowLemmas
mod LookupLemmas
