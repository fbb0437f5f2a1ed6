pub mod DecodeLemmas
pub mod FileLemmas
pub mod LineLemmas
pub mod LogicalLemmas
pub mod ParserLemmas
pub mod TextLemmas
pub mod TrimLemmas
