pub mod Lined
pub mod Narrowed
pub mod Rows
pub mod Screens
