pub mod BoundRows
pub mod Bounds
pub mod InputCalls
pub mod Ties
