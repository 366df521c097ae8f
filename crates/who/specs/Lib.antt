pub mod Bits
pub mod Who
