pub mod KeptLemmas
pub mod FirstLemmas
pub mod ShownLemmas
pub mod ApplyLemmas
pub mod DistinctLemmas
pub mod TellLemmas
