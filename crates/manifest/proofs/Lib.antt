pub mod ByName
pub mod Different
pub mod Kept
pub mod ListLaws
pub mod NameLaws
pub mod ReadingLaws
pub mod Said
pub mod TypeLaws
