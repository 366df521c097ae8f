pub mod Past
pub mod Worked
