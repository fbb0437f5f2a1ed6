pub mod Again
pub mod Areas
pub mod Counting
pub mod Extents
pub mod Facts
pub mod Matching
