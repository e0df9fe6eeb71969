pub mod KindLaws
pub mod Lengths
pub mod Starts
pub mod TreeLaws
pub mod ValueLaws
