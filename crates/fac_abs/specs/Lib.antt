pub mod InTurn
pub mod Marks
pub mod MarkPromises
pub mod SeenMarks
pub mod MarkTrees
pub mod RowVariables
pub mod inner
