pub mod Spellings
pub mod WrittenEffects
pub mod EffectReading
pub mod SaidEffects
pub mod LocalNames
pub mod RowlessEffects
pub mod EffectLaws
pub mod inner
