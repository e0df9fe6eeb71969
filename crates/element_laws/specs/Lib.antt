pub mod Apart
pub mod Phases
pub mod Pieces
pub mod Refused
pub mod Samples
pub mod lemmas
