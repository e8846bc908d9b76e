pub mod Ranges
pub mod Tables
pub mod Fields
pub mod Texts
pub mod Numbers
pub mod Spelling
pub mod Stretches
pub mod Rows
