pub mod Entries
pub mod Points
pub mod Copies
pub mod Synced
pub mod Costs
pub mod Unnamed
