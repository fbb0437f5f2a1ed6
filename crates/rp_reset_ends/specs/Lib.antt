pub mod Planned
pub mod Ends
