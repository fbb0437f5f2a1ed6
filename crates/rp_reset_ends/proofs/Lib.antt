pub mod Alike
pub mod Goals
pub mod Carried
pub mod Public
