pub mod Screenshot
pub mod Lines
pub mod RowShots
pub mod Shown
pub mod Narrow
