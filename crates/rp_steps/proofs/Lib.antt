pub mod SameLemmas
pub mod News
pub mod Copying
pub mod Planned
pub mod Counted
mod Sized
pub mod Called
mod Rows
pub mod Idle
pub mod Written
pub mod Pieces
pub mod Filled
pub mod Trees
pub mod Rowed
pub mod Contented
pub mod Made
pub mod Composed
