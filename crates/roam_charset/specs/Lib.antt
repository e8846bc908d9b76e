pub mod Charsets
pub mod Sets
