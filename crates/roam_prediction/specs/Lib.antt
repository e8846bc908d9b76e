pub mod Predictions
pub mod Overlay
pub mod Typing
pub mod Underlined
pub mod Verdicts
pub mod Laws
