pub mod ListLemmas
pub mod EndLemmas
pub mod KindLemmas
pub mod CellLemmas
pub mod OwnerLemmas
pub mod FillLemmas
pub mod VisitLemmas
pub mod UnionLemmas
pub mod OrderLemmas
pub mod SlotLemmas
pub mod BuiltLemmas
pub mod LawLemmas
pub mod WholeClasses
mod ExamplesOfClasses
