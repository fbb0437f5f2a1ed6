mod Accepted
mod Again
mod Computed
mod Extents
mod Idle
mod Kept
mod Lists
mod Matched
mod Named
mod Noted
pub mod Public
mod Rows
mod Settled
mod Sizes
mod Stepless
mod Unchanged
mod Wanted
