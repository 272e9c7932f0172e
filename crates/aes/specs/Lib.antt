pub mod State
pub mod Cipher
pub mod Column
pub mod Expansion
pub mod Key
pub mod Under
