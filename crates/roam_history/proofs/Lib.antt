pub mod Refitting
pub mod Pushing
pub mod Worked
