pub mod Demands
pub mod Goal
pub mod Kept
pub mod Limits
pub mod Names
pub mod Notes
pub mod Plannable
pub mod Rows
