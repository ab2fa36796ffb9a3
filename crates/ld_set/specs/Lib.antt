pub mod Moments
pub mod SetView
pub mod Words
