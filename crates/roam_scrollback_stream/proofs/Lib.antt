mod Asking
pub mod Telling
pub mod Going
pub mod Answering
mod Reading
