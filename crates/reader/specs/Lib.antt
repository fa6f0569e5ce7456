pub mod Faults
pub mod Law
pub mod Outcome
pub mod Shown
pub mod Step
pub mod Strings
