pub mod Fitting
pub mod Left
pub mod Made
pub mod Public
mod Computed
mod Walks
