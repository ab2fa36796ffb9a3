pub mod Points
pub mod Segments
pub mod Values
pub mod Refusal
pub mod Printed
pub mod Weights
