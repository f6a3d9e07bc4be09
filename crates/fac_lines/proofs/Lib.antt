pub mod LineLemmas
pub mod CutLemmas
pub mod AnswerLemmas
pub mod MeantLemmas
pub mod InputLemmas
pub mod ChannelLemmas
pub mod ExamplesOfLines
