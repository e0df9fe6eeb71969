pub mod Errors
pub mod Grammar
pub mod Reading
pub mod Memory
pub mod Carried
pub mod Replies
pub mod Generated
pub mod Samples
