pub mod Lexemes
pub mod Tokens
pub mod Spots
pub mod ReadingLaws
pub mod inner
