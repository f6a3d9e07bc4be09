pub mod Written
pub mod FromElements
pub mod Readings
pub mod Items
pub mod Made
pub mod inner
