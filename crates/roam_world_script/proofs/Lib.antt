pub mod Wording
pub mod Telling
pub mod Heads
