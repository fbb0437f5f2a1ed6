mod Best
mod Keeps
mod Least
mod Minima
pub mod Public
mod Settled
mod Thresholds
mod Walk
