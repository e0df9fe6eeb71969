pub mod Accepted
pub mod Unmade
