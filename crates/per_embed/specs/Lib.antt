pub mod Owned
pub mod Failures
