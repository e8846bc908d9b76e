mod Cutting
pub mod Fronts
mod Lengths
mod Parting
mod Reading
mod Standing
mod Streams
mod Separating
pub mod ShownAgain
