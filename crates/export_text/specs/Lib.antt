pub mod Exports
pub mod Views
pub mod Samples
