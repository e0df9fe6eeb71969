pub mod Unfailed
pub mod Values
