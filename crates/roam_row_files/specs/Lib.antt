pub mod Changes
pub mod Records
pub mod Reading
pub mod Laws
