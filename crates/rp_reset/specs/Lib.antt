pub mod Mix
pub mod Reset
