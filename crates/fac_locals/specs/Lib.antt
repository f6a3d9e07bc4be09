pub mod Cells
pub mod Sets
pub mod Asked
pub mod Literals
pub mod Closed
pub mod Frames
pub mod OpenedPrograms
pub mod inner
