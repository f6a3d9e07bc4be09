pub mod SamePrimitives
pub mod NoWords
pub mod KeptPrimitives
pub mod RunLaws
pub mod GivenValues
pub mod WholeValueLemmas
pub mod SymbolicStacks
pub mod ShuffleLemmas
pub mod FittingHeights
pub mod ElementLemmas
pub mod Following
pub mod AccessorLemmas
pub mod CaseLemmas
pub mod CallLemmas
pub mod FrameCases
pub mod PutOffCases
pub mod ClassCases
pub mod ActionCases
pub mod Simulation
pub mod PlainIsCode
pub mod HeldFrames
pub mod CodeRuns
pub mod CarriedCode
pub mod Reaching
mod ExamplesOfPutOff
mod ExamplesOfOwnCode
