pub mod Bans
pub mod Stacked
