pub mod Checks
pub mod Promises
pub mod Named
