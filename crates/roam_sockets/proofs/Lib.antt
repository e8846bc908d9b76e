mod Counting
mod Sending
mod Turning
