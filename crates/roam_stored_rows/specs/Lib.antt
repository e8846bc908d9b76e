pub mod Rows
pub mod Chunks
pub mod Ends
pub mod Pages
pub mod Finding
pub mod Blocks
pub mod Laws
