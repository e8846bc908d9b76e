pub mod Limits
pub mod Lines
pub mod Histories
pub mod Fitting
