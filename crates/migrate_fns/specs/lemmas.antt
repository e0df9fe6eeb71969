pub mod Facts
pub mod SameKinds
