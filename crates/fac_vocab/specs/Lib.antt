pub mod Scopes
pub mod ScopeCalls
pub mod inner
