pub mod Opens
pub mod Answers
pub mod Refusals
pub mod Durables
pub mod Openings
