pub mod KnownPrograms
pub mod Laws
