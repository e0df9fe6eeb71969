pub mod FieldReaders
pub mod Lengths
pub mod Order
