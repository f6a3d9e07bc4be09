pub mod Contexts
pub mod Trees
pub mod Nesting
pub mod Handed
pub mod inner
