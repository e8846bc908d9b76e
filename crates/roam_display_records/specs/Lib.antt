pub mod Looks
pub mod Records
pub mod Taken
