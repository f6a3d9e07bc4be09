pub mod MachineTexts
pub mod StackTexts
pub mod StandingSessions
pub mod CutRuns
pub mod Replies
pub mod inner
