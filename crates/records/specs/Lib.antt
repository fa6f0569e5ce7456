pub mod Damage
pub mod Ending
pub mod Faults
pub mod Reading
pub mod Running
pub mod Typed
