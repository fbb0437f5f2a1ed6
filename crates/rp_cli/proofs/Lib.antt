pub mod Applied
pub mod Applying
pub mod Numbered
pub mod Policies
pub mod Promised
pub mod Renewed
