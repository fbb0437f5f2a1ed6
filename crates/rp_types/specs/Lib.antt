pub mod Designators
pub mod Guids
pub mod Rules
pub mod Table
pub mod Types
