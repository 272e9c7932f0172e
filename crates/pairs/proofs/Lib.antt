pub mod Cipher
pub mod Carried
pub mod Steps
