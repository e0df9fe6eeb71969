pub mod Puts
pub mod Records
pub mod Synced
pub mod Copies
pub mod Pushed
pub mod Answering
pub mod Ordered
pub mod Outcomes
