pub mod Answers
pub mod Checks
pub mod Prepared
pub mod Promises
pub mod Keys
