mod Again
mod Chain
mod Clear
mod Facts
mod Laid
mod Loops
mod Matched
mod Order
mod Owners
mod Places
pub mod Public
mod Ranks
mod Rematched
mod Rows
mod Woven
