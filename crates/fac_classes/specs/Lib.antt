pub mod ClassKinds
pub mod inner
