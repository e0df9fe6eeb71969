mod Chain
mod Looks
mod Ranges
mod Standing
