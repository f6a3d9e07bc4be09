pub mod PieceLemmas
pub mod Crossings
