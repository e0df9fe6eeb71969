pub mod Values
pub mod Laws
pub mod Costs
pub mod CostSamples
