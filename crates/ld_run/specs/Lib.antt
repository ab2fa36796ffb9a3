pub mod Delivery
pub mod DeskRun
pub mod Saying
