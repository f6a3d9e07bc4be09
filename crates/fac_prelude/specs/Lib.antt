pub mod PreludeText
