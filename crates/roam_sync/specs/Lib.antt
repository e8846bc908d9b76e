pub mod Moments
pub mod Limits
pub mod Senders
pub mod Receivers
pub mod Links
pub mod TrueLinks
pub mod InStep
pub mod Laws
