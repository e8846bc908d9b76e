pub mod Sequences
pub mod Painting
pub mod Texts
pub mod Ground
pub mod Runs
