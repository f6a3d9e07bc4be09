pub mod Command
pub mod SeenCommands
