pub mod LevelLemmas
pub mod Blocks
pub mod Added
pub mod Adding
pub mod Closing
pub mod ShapeLemmas
pub mod TreeLemmas
pub mod Taking
pub mod Filling
pub mod Cutting
pub mod Sourced
pub mod OrderLemmas
pub mod Put
pub mod SuperblockLemmas
mod Computed
