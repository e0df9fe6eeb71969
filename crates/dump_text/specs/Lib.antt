pub mod Dumps
pub mod Elements
pub mod Views
