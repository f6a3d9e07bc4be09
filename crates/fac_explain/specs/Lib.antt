pub mod Places
pub mod Pictures
pub mod Sentences
pub mod Names
pub mod Nearness
pub mod Beginnings
