mod WordLemmas
pub mod LineLemmas
pub mod FeedLemmas
mod AgainLemmas
