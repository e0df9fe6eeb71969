pub mod Memories
pub mod Begun
pub mod Needs
pub mod Handled
pub mod Commands
pub mod storages
pub mod application
pub mod Sorting
