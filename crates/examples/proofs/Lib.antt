pub mod Fips197
pub mod Scope
