pub mod Naming
pub mod Facts
pub mod Kept
pub mod Tried
