pub mod Dissects
pub mod Statuses
