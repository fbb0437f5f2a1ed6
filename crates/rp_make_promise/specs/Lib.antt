pub mod Complete
pub mod Leaves
pub mod Promise
pub mod Told
