pub mod InOrder
pub mod Names
pub mod Same
