pub mod Groups
pub mod Loops
pub mod TreeLoops
