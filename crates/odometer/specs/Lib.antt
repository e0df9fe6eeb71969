pub mod Odometers
