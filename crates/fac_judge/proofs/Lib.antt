pub mod SourceLemmas
pub mod ClosedNameLemmas
pub mod JudgedLemmas
pub mod ImageLemmas
pub mod KnownLemmas
pub mod MeaningLemmas
