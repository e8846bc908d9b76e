pub mod Known
pub mod Lines
pub mod MetadataLines
pub mod MetadataLists
pub mod Clips
pub mod Queries
pub mod Closes
pub mod Reading
