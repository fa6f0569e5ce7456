pub mod Encoding
pub mod Faults
pub mod Kinds
pub mod Outcome
pub mod Running
pub mod Shown
