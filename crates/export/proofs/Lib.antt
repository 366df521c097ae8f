pub mod GreaterLaws
pub mod Unique
