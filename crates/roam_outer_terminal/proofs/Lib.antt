pub mod Heard
mod Judged
mod Noted
pub mod Said
pub mod Showing
pub mod TakenLines
pub mod Written
