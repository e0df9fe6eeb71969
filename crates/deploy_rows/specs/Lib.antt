pub mod Rows
pub mod Recovering
pub mod Costs
pub mod Laws
pub mod Samples
