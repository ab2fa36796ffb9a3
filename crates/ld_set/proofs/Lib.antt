pub mod MomentLemmas
pub mod NumberLemmas
pub mod WordLemmas
pub mod MatchLemmas
