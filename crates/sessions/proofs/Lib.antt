pub mod Checked
pub mod Reached
pub mod Sessions
pub mod OneCall
pub mod EarlyPart
pub mod Decided
pub mod Wrong
