-- What only the contracts of inner functions cite.
pub mod EffectParts
pub mod Groups
