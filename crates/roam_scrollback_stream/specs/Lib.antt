pub mod Records
pub mod Requests
pub mod ReadRequests
pub mod Panes
pub mod Runs
pub mod Readings
