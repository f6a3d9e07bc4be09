pub mod InstructionLaws
pub mod RowLaws
pub mod GenericLaws
pub mod ImageLaws
pub mod SameImages
pub mod FitLaws
pub mod MethodFits
pub mod KeptParts
pub mod SpelledImages
pub mod Written
pub mod Counted
pub mod PlainLaws
pub mod DecodingLaws
pub mod MethodLoops
mod Examples
pub mod ExamplesOfListings
