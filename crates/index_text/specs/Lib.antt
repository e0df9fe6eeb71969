pub mod Contents
pub mod Reading
pub mod Rules
pub mod Samples
pub mod Sizes
pub mod Spelling
pub mod lemmas
