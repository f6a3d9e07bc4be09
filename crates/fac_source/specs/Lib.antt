pub mod Toks
pub mod Refusals
pub mod inner
pub mod FormRows
