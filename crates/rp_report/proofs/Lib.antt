pub mod JsonLemmas
pub mod NotedLemmas
pub mod TextLemmas
