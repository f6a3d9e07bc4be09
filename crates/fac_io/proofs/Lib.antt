pub mod NameLemmas
pub mod Streams
pub mod SinkLemmas
pub mod RealLemmas
