pub mod Entries
pub mod Faults
pub mod Outcome
pub mod Sound
pub mod Table
