pub mod JudgeLaws
pub mod Unique
pub mod Worked
