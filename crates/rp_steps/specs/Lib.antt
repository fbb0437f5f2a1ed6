pub mod Same
pub mod Steps
pub mod Writes
pub mod Planned
pub mod Done
pub mod Contents
pub mod Calls
