pub mod Contents
pub mod Recoveries
pub mod SameKinds
mod Sizes
