pub mod Stores
pub mod Files
