pub mod StreamLaws
pub mod Theorems
pub mod Keeping
