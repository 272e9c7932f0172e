pub mod Products
pub mod Inverse
