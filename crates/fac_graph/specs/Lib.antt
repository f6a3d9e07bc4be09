pub mod Paths
pub mod Laws
pub mod Slots
pub mod inner
