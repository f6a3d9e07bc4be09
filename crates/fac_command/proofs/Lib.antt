pub mod CommandLemmas
pub mod ExamplesOfCommands
