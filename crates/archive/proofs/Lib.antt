pub mod Drafts
pub mod Law
pub mod Verdicts
