-- What only the contracts of inner functions cite.
pub mod Cutting
pub mod Reading
