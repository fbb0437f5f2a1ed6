pub mod Answers
pub mod Causes
pub mod Found
pub mod Made
pub mod Run
pub mod Sourced
pub mod Stocked
