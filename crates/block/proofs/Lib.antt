pub mod Blocks
pub mod Doubling
pub mod Words
pub mod Linear
