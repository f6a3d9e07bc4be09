pub mod PrintedLemmas
pub mod AddingLemmas
pub mod FormLemmas
