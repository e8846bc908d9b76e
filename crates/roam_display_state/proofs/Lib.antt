mod Found
pub mod Leading
mod Masking
pub mod Refused
