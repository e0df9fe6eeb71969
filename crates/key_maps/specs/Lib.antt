pub mod Changes
pub mod Fronts
pub mod KeyElements
pub mod KeyStates
pub mod Picked
pub mod Shown
pub mod TwoMaps
pub mod lemmas
