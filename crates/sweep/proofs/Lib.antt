pub mod Greatest
pub mod Sweeping
