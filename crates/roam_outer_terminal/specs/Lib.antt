pub mod Hearing
pub mod Overlaid
pub mod Painted
pub mod Silence
pub mod Staying
pub mod Terminals
pub mod Writing
