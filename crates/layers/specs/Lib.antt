pub mod Banned
pub mod Bans
pub mod Faults
pub mod Outcome
pub mod Sound
