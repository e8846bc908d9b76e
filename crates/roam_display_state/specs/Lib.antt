pub mod Leading
pub mod Masking
pub mod Saying
pub mod Scopes
pub mod DisplayState
