mod Asking
mod Replying
mod Playing
