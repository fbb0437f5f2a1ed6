pub mod Puts
pub mod Waiting
pub mod Written
pub mod Taking
