pub mod EffectFalls
pub mod IntegerHalves
