pub mod Flushed
pub mod Idle
pub mod Opened
pub mod Refused
pub mod Rows
pub mod Unfailing
pub mod Needs
