pub mod Plan
pub mod Planner
