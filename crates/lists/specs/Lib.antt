pub mod Xor
pub mod Table
pub mod Lay
pub mod Zeros
pub mod Hex
pub mod Same
