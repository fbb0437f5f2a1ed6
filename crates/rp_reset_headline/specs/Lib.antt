pub mod Planned
pub mod Anew
