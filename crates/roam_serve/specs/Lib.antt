pub mod Echoes
pub mod Listed
pub mod Ports
pub mod Rests
pub mod Runs
pub mod Tellings
pub mod Mending
