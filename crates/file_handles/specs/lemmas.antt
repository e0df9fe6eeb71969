pub mod Asked
pub mod Entries
pub mod Lookups
pub mod Named
pub mod Numbers
pub mod Opens
pub mod Sound
pub mod Whole
