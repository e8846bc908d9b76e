mod Bound
mod Bringing
mod Cutting
mod Framing
mod Sifting
