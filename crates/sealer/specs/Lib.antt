pub mod Sealers
pub mod Promises
