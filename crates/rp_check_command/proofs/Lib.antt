mod Printed
mod Sighted
mod Planned
mod Ended
mod Found
pub mod Statuses
