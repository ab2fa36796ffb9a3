pub mod FileShelf
pub mod MemShelf
pub mod MemSink
pub mod Shelf
pub mod ShelfView
pub mod Sink
pub mod SinkView
