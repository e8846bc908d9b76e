pub mod RowTexts
pub mod Keeping
pub mod Writing
pub mod Tops
pub mod Repeats
pub mod QuietRuns
pub mod Through
pub mod Shedding
pub mod Standing
pub mod Leading
pub mod Following
pub mod Bringing
mod Counting
pub mod Filling
pub mod Pending
pub mod Beginning
