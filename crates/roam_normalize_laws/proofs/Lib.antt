pub mod Fields
pub mod Values
pub mod Styles
pub mod Spelled
pub mod Line
