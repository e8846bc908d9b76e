pub mod Addresses
pub mod Arrivals
pub mod Clients
pub mod Folders
pub mod Lanes
pub mod Pace
pub mod Waits
