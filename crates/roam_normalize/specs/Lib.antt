pub mod Renditions
pub mod Meanings
pub mod Normalized
pub mod Found
pub mod Titles
