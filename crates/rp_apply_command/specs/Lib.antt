pub mod Applies
pub mod Carrying
pub mod Complete
pub mod Ends
