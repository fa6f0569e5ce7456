pub mod Assignments
pub mod Bits
pub mod Bounded
pub mod Conditions
pub mod Firsts
pub mod Limits
pub mod Staying
pub mod Tests
