pub mod Devices
pub mod Fronts
pub mod SessionNotes
pub mod Listens
pub mod inner
