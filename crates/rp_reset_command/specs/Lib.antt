pub mod Applies
pub mod Carrying
pub mod Plans
pub mod Renewing
pub mod Reports
