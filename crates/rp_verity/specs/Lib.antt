pub mod Tree
pub mod Order
pub mod Puts
pub mod Room
pub mod Filled
pub mod Builder
pub mod Lending
pub mod Superblock
