pub mod Chains
pub mod Fingerprints
pub mod Links
pub mod Rules
pub mod Samples
pub mod Stored
pub mod Widened
pub mod lemmas
