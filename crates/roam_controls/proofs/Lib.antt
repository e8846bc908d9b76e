pub mod Folds
pub mod Rows
