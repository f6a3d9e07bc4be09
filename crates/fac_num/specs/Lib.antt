pub mod Reading
pub mod Quotients
pub mod inner
