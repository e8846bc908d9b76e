pub mod Arriving
pub mod Notices
pub mod Runs
pub mod Sleeps
pub mod Ways
