pub mod Greatest
pub mod Outcome
pub mod Sweep
