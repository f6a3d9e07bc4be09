pub mod Signatures
pub mod EffectView
pub mod Numbers
pub mod Effects
pub mod HeightArithmetic
pub mod inner
