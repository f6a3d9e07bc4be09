-- What only the contracts of inner functions cite.
pub mod Members
pub mod OwnKinds
pub mod Cells
pub mod Filling
pub mod Visits
pub mod Ordering
pub mod Built
pub mod Chains
