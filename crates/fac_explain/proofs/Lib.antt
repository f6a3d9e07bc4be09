pub mod LineLemmas
pub mod TextLemmas
pub mod NearLemmas
pub mod NameLemmas
mod ExamplesOfPictures
mod ExamplesOfNames
