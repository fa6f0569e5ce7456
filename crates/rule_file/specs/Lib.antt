pub mod Encoding
pub mod Faults
pub mod Kinds
pub mod Order
pub mod Outcome
pub mod Reading
