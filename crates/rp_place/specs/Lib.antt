pub mod Facts
pub mod Placing
