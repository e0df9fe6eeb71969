pub mod Dumps
pub mod Initials
pub mod Numbers
pub mod Parts
pub mod Reasons
pub mod Rules
