pub mod Reads
pub mod Checked
pub mod Standing
pub mod Sealed
