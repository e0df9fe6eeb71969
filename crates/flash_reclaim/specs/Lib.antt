pub mod Naming
pub mod Reclaiming
