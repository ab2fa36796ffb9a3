pub mod Multiple
pub mod Terms
pub mod Fraction
pub mod Written
pub mod Reading
pub mod Shape
pub mod Duration
pub mod Tally
