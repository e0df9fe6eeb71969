pub mod Entrywise
pub mod Supported
pub mod ViewsRead
