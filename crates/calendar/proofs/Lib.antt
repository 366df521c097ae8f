pub mod DateLaws
pub mod AnswerLaws
pub mod Bijection
pub mod NextLaws
pub mod Theorems
mod Examples
pub mod Unique
