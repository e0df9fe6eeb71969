pub mod Depth
pub mod Quoted
pub mod Hex
pub mod Printed
pub mod Lines
pub mod Spelled
