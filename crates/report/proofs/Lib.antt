pub mod SayLaws
pub mod Theorems
