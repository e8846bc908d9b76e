pub mod Spelled
pub mod Wording
