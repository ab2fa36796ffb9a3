pub mod Pool
pub mod Users
