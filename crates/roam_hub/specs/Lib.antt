pub mod Ends
pub mod Clients
pub mod Servers
pub mod Records
pub mod Waits
pub mod Shared
