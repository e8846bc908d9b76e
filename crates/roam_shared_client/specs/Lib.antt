pub mod Running
pub mod Sharing
pub mod Listening
