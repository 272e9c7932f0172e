pub mod Orders
pub mod Planning
pub mod Sealings
