pub mod Lists
pub mod Types
pub mod Mismatches
pub mod Stored
pub mod Seen
pub mod Rows
pub mod Nothing
pub mod Replaced
pub mod ExportRows
pub mod ImportRows
mod ImportCosts
pub mod Numbers
pub mod Synced
pub mod Filled
pub mod Restored
