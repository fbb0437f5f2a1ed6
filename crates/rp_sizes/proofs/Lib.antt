mod Found
pub mod AskedLemmas
pub mod NewsLemmas
pub mod Walks
