pub mod Replies
pub mod Asked
pub mod Scripts
pub mod Played
