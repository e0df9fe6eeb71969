pub mod Looks
pub mod Storages
pub mod Texts
