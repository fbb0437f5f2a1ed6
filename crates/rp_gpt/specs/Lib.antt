pub mod Numbers
pub mod Fields
pub mod Copy
pub mod Mbr
pub mod Shown
pub mod Accepted
