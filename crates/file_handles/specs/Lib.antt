pub mod ByName
pub mod Handling
pub mod Lending
pub mod Opening
pub mod Sessions
pub mod Tables
pub mod Whole
pub mod lemmas
