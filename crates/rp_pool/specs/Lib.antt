pub mod Lending
pub mod Region
