mod After
mod Apart
mod Files
mod Filled
mod Idle
mod Laid
mod Lists
pub mod Public
mod Ready
mod Rows
mod Seating
mod Shared
mod Shares
mod Spots
mod Stacks
mod Weaving
mod Woven
mod Written
