pub mod Contents
pub mod Parts
pub mod Reading
pub mod Rules
pub mod Values
pub mod Views
