pub mod Limits
pub mod Parsing
pub mod Readers
pub mod Samples
pub mod Texts
pub mod Types
pub mod Whole
pub mod lemmas
