pub mod Block
pub mod Wide
