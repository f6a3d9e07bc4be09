pub mod BoundRowLemmas
pub mod BindingLemmas
mod CallLemmas
mod TakingLemmas
mod ExamplesOfBinding
pub mod NumberingLemmas
pub mod UsedRows
pub mod NamingRows
