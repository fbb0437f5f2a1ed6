pub mod Asked
pub mod Applied
pub mod Holds
pub mod Resetting
