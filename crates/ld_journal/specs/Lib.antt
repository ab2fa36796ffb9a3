pub mod Journal
pub mod Writable
pub mod Example
