pub mod Grounding
pub mod Whole
pub mod Reading
pub mod Texts
