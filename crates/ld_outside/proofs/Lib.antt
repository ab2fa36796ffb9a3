pub mod FileLemmas
pub mod FileShelfLemmas
pub mod ShelfLemmas
pub mod SinkLemmas
