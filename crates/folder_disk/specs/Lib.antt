pub mod Files
pub mod Writes
pub mod Held
pub mod Knows
pub mod FolderView
pub mod Laws
