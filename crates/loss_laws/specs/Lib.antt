pub mod Laws
pub mod ReadsOn
pub mod Since
pub mod Spared
pub mod Whole
