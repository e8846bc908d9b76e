pub mod Numbers
pub mod Texts
pub mod Heads
pub mod Places
pub mod Cuts
pub mod Arrive
pub mod Rows
