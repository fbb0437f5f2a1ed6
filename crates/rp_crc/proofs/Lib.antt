pub mod Shifts
pub mod Feeding
mod Vectors
