pub mod Striping
pub mod StripeFault
pub mod Pattern
pub mod Place
