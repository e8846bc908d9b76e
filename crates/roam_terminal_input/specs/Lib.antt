pub mod Entries
pub mod Keys
pub mod Lines
pub mod ReadShowings
pub mod Showings
pub mod Typing
