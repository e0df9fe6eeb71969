pub mod Vote
pub mod Laws
pub mod Samples
