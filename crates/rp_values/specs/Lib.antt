pub mod Kinds
pub mod Numbers
pub mod Switches
pub mod Texts
