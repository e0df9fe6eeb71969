pub mod AllPlans
pub mod Merged
pub mod Renewals
pub mod Starts
pub mod Updating
