pub mod Named
pub mod Calls
pub mod Editions
pub mod Held
pub mod Prepared
pub mod Firmware
pub mod Carrying
pub mod Engines
