pub mod Whole
pub mod Times
pub mod Kept
pub mod Epochs
pub mod Changes
