pub mod Seats
pub mod Seating
pub mod Changes
pub mod Choice
