mod MetadataLists
mod Clipped
pub mod Subscribing
pub mod ReadAgain
mod Titles
mod Newest
