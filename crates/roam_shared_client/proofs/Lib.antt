pub mod Behind
mod Joined
