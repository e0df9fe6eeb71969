pub mod Running
pub mod Needs
pub mod Answers
pub mod Promises
pub mod Stages
