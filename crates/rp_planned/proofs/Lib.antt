mod Answered
mod Asked
pub mod Target
