pub mod Bits
pub mod Xor
pub mod Table
pub mod Laid
pub mod Four
pub mod Zeros
pub mod Same
