pub mod Search
pub mod KnownRows
pub mod CaseLists
pub mod Bits
pub mod Behind
pub mod TakenBits
pub mod Choosing
