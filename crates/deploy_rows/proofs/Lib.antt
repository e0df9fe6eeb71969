pub mod Later
pub mod Rejected
pub mod Alike
pub mod Manifests
