pub mod NamingLemmas
pub mod NumberLemmas
pub mod KeptLemmas
pub mod TriedLemmas
pub mod LawLemmas
pub mod ApartLemmas
