pub mod CellByCell
pub mod Early
