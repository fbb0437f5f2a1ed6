mod Computed
pub mod GuidLemmas
pub mod Units
