pub mod ExamplesOfNumbers
pub mod EffectLemmas
pub mod SameBytes
