pub mod OrderedMethods
pub mod MethodLawLemmas
pub mod RowLemmas
pub mod WholeMethods
mod ExamplesOfMethods
