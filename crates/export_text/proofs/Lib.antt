pub mod Each
pub mod Judged
pub mod Loop
pub mod Order
pub mod Whole
