pub mod Sessions
pub mod Single
pub mod Usage
