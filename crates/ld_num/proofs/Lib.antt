pub mod LcmLemmas
pub mod FractionLemmas
pub mod ShapeLemmas
pub mod DigitLemmas
pub mod ReadingLemmas
pub mod DurationLemmas
