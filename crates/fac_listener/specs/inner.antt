-- What only the contracts of inner functions cite.
pub mod PhraseRuns
pub mod SessionSteps
pub mod SessionLaws
