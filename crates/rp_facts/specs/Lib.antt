pub mod Faults
pub mod Sourced
