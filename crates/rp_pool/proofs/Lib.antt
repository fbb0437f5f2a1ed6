mod Fit
mod Free
pub mod Public
mod Scan
mod Written
