pub mod Moves
pub mod Sessions
pub mod Suggestion
