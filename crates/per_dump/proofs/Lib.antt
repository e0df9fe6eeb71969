pub mod Active
pub mod Looked
pub mod Storages
