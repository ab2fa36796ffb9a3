pub mod ItersPart
pub mod NextItems
pub mod Work
pub mod SharedShows
pub mod SlotsShows
pub mod SlotsOpening
pub mod SlotsChanges
pub mod Shows
