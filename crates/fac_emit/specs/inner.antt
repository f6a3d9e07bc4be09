-- What only the contracts of inner functions cite.
pub mod AddedTemplates
pub mod Parts
pub mod Coded
pub mod NumberedWords
pub mod OwnRows
pub mod Dispatch
pub mod Pieces
pub mod Promised
