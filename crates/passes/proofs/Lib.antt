pub mod Messages
pub mod Sealed
