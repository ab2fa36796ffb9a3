pub mod FreeLemmas
pub mod KeptLemmas
pub mod UntilLemmas
pub mod UserLemmas
