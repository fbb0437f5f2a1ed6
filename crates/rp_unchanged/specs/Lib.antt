pub mod Defined
pub mod Pairs
pub mod Unchanged
