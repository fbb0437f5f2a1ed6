pub mod NumberLemmas
pub mod ExpandLemmas
pub mod LabelLemmas
pub mod PathLemmas
pub mod SplitLemmas
