pub mod Codes
pub mod Document
pub mod Known
pub mod Node
pub mod Pointer
pub mod Rules
