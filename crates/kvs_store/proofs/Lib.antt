pub mod JudgedKeys
pub mod KeyChanges
pub mod Opened
pub mod Stored
pub mod Synced
