pub mod GivenLemmas
pub mod GivenFiles
pub mod CheckedLemmas
pub mod ExplainedLemmas
pub mod IdleLemmas
pub mod HomeLemmas
pub mod HelpLemmas
pub mod VerdictLemmas
