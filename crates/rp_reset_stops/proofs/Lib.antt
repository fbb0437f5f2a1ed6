pub mod Given
pub mod Through
pub mod Public
