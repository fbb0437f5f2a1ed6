mod Asked
mod Carried
mod Copied
pub mod Ended
mod Found
mod Rooted
mod Started
mod Told
pub mod Unfailed
