pub mod Capping
pub mod IntegerForms
pub mod Ranges
pub mod ForCallers
pub mod ExamplesOfAnswers
