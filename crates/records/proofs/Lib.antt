pub mod Finding
pub mod Listing
pub mod Running
pub mod Standing
