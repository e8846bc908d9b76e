pub mod Values
pub mod Kinds
pub mod Lines
pub mod Skipped
pub mod Reading
pub mod Arguments
