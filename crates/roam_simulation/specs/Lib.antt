pub mod Networks
pub mod Events
pub mod Worlds
