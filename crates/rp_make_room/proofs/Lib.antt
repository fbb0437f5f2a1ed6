pub mod Looked
pub mod Printed
