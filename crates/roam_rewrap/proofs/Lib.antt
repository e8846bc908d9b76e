pub mod Joining
pub mod Cutting
pub mod Positions
pub mod Cursors
pub mod Shots
pub mod Fitting
