pub mod Feeds
pub mod Rests
