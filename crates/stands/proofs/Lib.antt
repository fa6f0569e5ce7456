pub mod Lowest
pub mod Sessions
