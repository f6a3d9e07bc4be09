pub mod PlainEffects
pub mod Chains
pub mod Behind
pub mod Cycles
pub mod MethodKeys
pub mod Finishes
pub mod Lines
pub mod Ready
