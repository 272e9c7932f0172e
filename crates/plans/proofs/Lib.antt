pub mod OneToOne
pub mod Plans
pub mod Planned
pub mod Marks
pub mod Rows
