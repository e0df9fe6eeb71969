pub mod Blank
pub mod PageRecord
pub mod Stated
pub mod lemmas
