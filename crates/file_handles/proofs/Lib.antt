pub mod Through
pub mod Filled
pub mod Lent
