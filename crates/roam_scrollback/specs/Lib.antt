pub mod Wraps
pub mod RowText
pub mod Lines
pub mod Sources
pub mod Leading
pub mod Rewraps
