pub mod Entries
pub mod Rests
pub mod Ready
