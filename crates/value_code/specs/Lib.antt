pub mod Reading
pub mod Samples
pub mod lemmas
