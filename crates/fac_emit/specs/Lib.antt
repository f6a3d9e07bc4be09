pub mod CarriedPrograms
pub mod Heights
pub mod ProgramTexts
pub mod ProgramTables
pub mod ProgramCode
pub mod inner
