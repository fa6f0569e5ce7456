pub mod Fitting
pub mod Limits
pub mod Listing
pub mod Shown
