pub mod StateLemmas
pub mod ShownLemmas
