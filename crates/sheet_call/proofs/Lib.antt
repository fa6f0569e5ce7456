pub mod Lengths
pub mod Making
pub mod Front
