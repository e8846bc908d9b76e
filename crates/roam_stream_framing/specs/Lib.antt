pub mod Backlogs
pub mod Carriers
pub mod Frames
pub mod Queues
pub mod Streams
