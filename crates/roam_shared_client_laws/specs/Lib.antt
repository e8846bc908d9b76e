pub mod Lines
pub mod Paintings
