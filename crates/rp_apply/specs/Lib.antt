pub mod Called
pub mod Commits
pub mod Ready
pub mod Sourced
