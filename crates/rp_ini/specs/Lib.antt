pub mod File
pub mod Lines
pub mod Parser
pub mod Text
