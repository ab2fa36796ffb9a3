pub mod Chosen
pub mod Course
