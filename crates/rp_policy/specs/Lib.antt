pub mod Beyond
pub mod Flags
pub mod Joining
pub mod Judging
pub mod Reading
pub mod Written
