pub mod Finding
pub mod Viewing
mod Ranges
pub mod Contents
