pub mod Conditions
pub mod Data
pub mod Lookups
