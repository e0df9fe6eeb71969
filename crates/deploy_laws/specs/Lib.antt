pub mod Places
pub mod Apps
pub mod Pieces
pub mod Stands
pub mod Onward
pub mod Laws
pub mod Refused
pub mod Samples
