pub mod Faults
pub mod Making
pub mod Outcome
pub mod Page
pub mod Room
pub mod Steps
