pub mod Dissected
pub mod Kinds
pub mod Reach
