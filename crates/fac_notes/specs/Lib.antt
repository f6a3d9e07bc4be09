pub mod Statuses
pub mod WordNames
pub mod NoteRows
pub mod Notes
pub mod Sources
pub mod Told
pub mod Visible
