pub mod FirstLemmas
pub mod HeadLemmas
