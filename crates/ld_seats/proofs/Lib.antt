pub mod NumbersLemmas
pub mod HeldSlotsLemmas
pub mod ApplyLemmas
pub mod ChoiceLemmas
pub mod OpeningLemmas
