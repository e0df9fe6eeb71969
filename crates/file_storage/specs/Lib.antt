pub mod Closes
pub mod FileSessions
pub mod Opened
pub mod Scopes
pub mod StoredFiles
pub mod Syncs
pub mod Walks
