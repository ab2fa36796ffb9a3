pub mod ChosenLemmas
pub mod CourseLemmas
pub mod EndedLemmas
pub mod FirstLemmas
pub mod HeldLemmas
pub mod IdleLemmas
