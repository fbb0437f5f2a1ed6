pub mod FoundLemmas
pub mod OrderLemmas
pub mod PieceLemmas
pub mod ReadLemmas
pub mod Sizes
pub mod ThereLemmas
