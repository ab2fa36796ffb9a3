pub mod CoreView
pub mod Shows
pub mod Core
pub mod Changes
pub mod Firsts
pub mod Runs
