pub mod Lines
pub mod Wrapping
pub mod Windows
