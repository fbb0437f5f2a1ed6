pub mod Given
pub mod Left
pub mod Moments
pub mod Public
