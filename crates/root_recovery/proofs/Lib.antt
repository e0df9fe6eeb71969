pub mod Placed
pub mod Finding
pub mod Lefts
pub mod Chosen
pub mod Storages
pub mod Stopped
pub mod Afterwards
pub mod Synced
