pub mod BaseLemmas
pub mod CallerLemmas
pub mod EqualMarks
pub mod FrameLemmas
mod ExamplesOfMarks
pub mod InTurnLemmas
pub mod LimitLemmas
pub mod MoveLemmas
pub mod NodeEquality
pub mod SeenLemmas
pub mod StackLemmas
pub mod MarkTableLemmas
pub mod TreeLemmas
