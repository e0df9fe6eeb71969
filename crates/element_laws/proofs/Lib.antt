pub mod MendLaws
pub mod Unchanged
