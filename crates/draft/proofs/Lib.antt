pub mod Largest
pub mod Packing
pub mod Places
pub mod Writing
