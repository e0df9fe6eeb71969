pub mod Lost
pub mod Outvotes
pub mod Samples
