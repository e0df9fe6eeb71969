pub mod Applications
pub mod Lists
pub mod Others
pub mod Remaining
pub mod Silent
