pub mod InstrRows
pub mod TrapTexts
pub mod Code
pub mod References
pub mod Images
pub mod ImageNames
pub mod ClassSets
pub mod inner
