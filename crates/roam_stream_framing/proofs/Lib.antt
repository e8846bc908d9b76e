pub mod Reading
pub mod Carrying
