pub mod Files
pub mod Infos
pub mod Places
