pub mod Files
pub mod Planning
