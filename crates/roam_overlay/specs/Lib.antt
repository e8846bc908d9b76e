pub mod Delays
pub mod Overlays
