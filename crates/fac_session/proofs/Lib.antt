pub mod LineLemmas
pub mod KnownLines
pub mod ExamplesOfSessions
