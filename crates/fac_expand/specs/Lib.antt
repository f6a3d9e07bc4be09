pub mod SameButPlaces
pub mod Expands
pub mod DirectInPlace
pub mod inner
