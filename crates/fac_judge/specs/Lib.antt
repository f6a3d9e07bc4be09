pub mod TextSources
pub mod JudgedPrograms
pub mod TextImages
pub mod KnownTexts
pub mod MeantTexts
pub mod TextMeanings
pub mod inner
