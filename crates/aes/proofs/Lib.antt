pub mod Rounds
pub mod Words
pub mod Sizes
pub mod Front
pub mod Keys
