mod Rung
mod Turning
