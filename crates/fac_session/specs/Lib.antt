pub mod Sessions
pub mod SessionLines
pub mod Heard
pub mod Laws
