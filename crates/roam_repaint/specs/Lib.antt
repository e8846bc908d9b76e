pub mod Repainting
pub mod Repainted
