mod Digits
mod Taken
