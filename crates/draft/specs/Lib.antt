pub mod Faults
pub mod Outcome
pub mod Room
pub mod Rows
pub mod Starts
