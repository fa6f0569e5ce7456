pub mod Drafting
pub mod Faults
pub mod Outcome
pub mod Right
pub mod Shown
