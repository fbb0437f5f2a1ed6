pub mod Needs
pub mod Pairs
pub mod Facts
pub mod Sizes
pub mod News
