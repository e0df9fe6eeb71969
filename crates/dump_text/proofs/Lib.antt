pub mod Containers
pub mod Members
pub mod Parts
pub mod Read
