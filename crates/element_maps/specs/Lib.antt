pub mod Differences
pub mod Laws
pub mod Sessions
pub mod Storages
pub mod lemmas
