pub mod Able
pub mod Between
pub mod Both
pub mod Known
pub mod Left
pub mod Refused
pub mod Renewed
