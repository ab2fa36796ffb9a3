pub mod Counts
pub mod PlanText
pub mod Planned
pub mod Summary
pub mod Summed
