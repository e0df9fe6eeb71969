pub mod SealedText
pub mod Laws
pub mod Inverse
pub mod Samples
