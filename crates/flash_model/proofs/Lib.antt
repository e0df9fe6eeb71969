pub mod Pushed
pub mod Answering
pub mod PageLists
