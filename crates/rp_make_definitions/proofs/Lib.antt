mod Spelled
mod Tried
pub mod Known
