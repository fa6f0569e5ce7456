pub mod Entries
pub mod Steps
pub mod Whole
pub mod Words
