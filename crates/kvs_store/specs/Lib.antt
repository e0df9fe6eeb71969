pub mod Judged
pub mod Opened
pub mod Storages
pub mod Synced
