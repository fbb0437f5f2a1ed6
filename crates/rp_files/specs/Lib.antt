pub mod Faults
pub mod Found
pub mod Passed
pub mod Pieces
pub mod Reading
