pub mod Settles
pub mod Known
