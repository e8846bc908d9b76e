pub mod Making
pub mod Taking
pub mod Parcels
pub mod Starts
pub mod Painted
pub mod Leading
mod Moving
pub mod HopTick
pub mod HopDeliveries
pub mod Hopping
pub mod Readiness
mod Losing
