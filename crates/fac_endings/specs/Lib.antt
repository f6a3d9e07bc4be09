pub mod Words
pub mod ClassTable
pub mod FinishedWords
pub mod LastRefusals
pub mod Endings
pub mod inner
