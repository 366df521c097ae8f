pub mod Loops
pub mod Settled
