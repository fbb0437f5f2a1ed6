pub mod Told
pub mod Kept
pub mod Places
pub mod Steps
pub mod Pushed
pub mod Ends
