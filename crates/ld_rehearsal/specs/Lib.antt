pub mod Dues
pub mod Played
pub mod Stage
