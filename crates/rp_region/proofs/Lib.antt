pub mod Leasing
pub mod Held
