pub mod Entry
pub mod Faults
pub mod Help
pub mod Hint
pub mod Line
pub mod Table
pub mod Values
pub mod Words
