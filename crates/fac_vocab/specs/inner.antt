-- What only the contracts of inner functions cite.
pub mod Rows
pub mod Index
pub mod Pairs
pub mod Roots
pub mod Late
pub mod Leasts
pub mod BroughtForms
pub mod PublicVocabs
