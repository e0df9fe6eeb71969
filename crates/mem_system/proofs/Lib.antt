mod Puts
mod Copies
mod Moments
mod Told
mod Done
