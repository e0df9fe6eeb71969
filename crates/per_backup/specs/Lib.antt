pub mod Backups
pub mod Clauses
pub mod Finding
pub mod Laws
pub mod Samples
pub mod StorageLaws
pub mod Restores
