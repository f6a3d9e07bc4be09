pub mod LineReads
pub mod LineAnswers
pub mod MeantLines
pub mod SeenLines
pub mod Inputs
pub mod Channels
pub mod inner
