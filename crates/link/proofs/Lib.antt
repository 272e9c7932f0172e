pub mod Answers
pub mod Entries
pub mod Known
pub mod Verdicts
