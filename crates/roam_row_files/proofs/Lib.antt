pub mod Framing
pub mod Beginnings
pub mod Tails
pub mod Weights
pub mod Checks
