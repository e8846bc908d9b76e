mod Running
mod Waiting
