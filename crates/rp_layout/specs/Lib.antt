pub mod Again
pub mod Facts
pub mod Layout
pub mod Seats
pub mod Stacking
