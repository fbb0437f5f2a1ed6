pub mod Again
pub mod Blank
pub mod Halves
pub mod Identified
pub mod Laid
pub mod Nothing
pub mod Paired
pub mod Sealed
