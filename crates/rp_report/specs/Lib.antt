pub mod Json
pub mod Names
pub mod PlanJson
pub mod Plans
pub mod Reports
pub mod Tables
