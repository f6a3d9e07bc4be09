pub mod GivenTexts
pub mod Steps
