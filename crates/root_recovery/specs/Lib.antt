pub mod Failures
pub mod Recoveries
pub mod Choices
pub mod Left
pub mod Clauses
pub mod Texts
pub mod Samples
