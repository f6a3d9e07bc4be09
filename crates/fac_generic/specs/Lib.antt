pub mod Methods
pub mod inner
