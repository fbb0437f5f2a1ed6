pub mod StoredLemmas
pub mod LimitLemmas
