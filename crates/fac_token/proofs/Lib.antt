pub mod ScanLemmas
pub mod OneReading
pub mod StepLemmas
pub mod AnswerLemmas
pub mod ExamplesOfTokens
pub mod ExamplesOfSpots
pub mod FileAnswers
pub mod SpotLemmas
