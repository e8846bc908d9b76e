mod Answering
mod Asked
mod Clipped
mod Hearing
mod Inquired
mod News
mod Seated
mod Telling
