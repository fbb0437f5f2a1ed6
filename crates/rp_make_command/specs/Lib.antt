pub mod Ends
pub mod Makes
pub mod Summary
